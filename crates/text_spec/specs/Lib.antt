-- The listing program's texts (01, 'The listing program'), read from top to bottom.
--     Ascii      characters by name, and quoted text
--     Decimal    a number's decimal text
--     Text       the lines that the program prints
--     Put        a text put into a lent buffer
pub mod Ascii
pub mod Decimal
pub mod Text
pub mod Put
