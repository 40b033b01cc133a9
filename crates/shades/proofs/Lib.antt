-- The theorems about the two calls.
--     Least       the letters of given counts in increasing order are the least ring with them
--     Asking      what the checks leave to the functions behind them
pub mod Least
pub mod Asking
