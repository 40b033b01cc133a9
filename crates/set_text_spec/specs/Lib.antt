-- What a chart job's command prints (02, 'g'), read from top to bottom.
--     Text       the lines of a set
--     Prints     the output for a line, and its place in a lent buffer
pub mod Text
pub mod Prints
