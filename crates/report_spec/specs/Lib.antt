-- What the report prints (02, request f), read from top to bottom.
--     Lines      the lines of an input, what each prints, and what the whole input prints
--     Blocks     the same block after block, and what the calls promise
pub mod Lines
pub mod Blocks
