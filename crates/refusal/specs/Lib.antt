-- Refusals (01, 'Refusal numbers'), read from top to bottom.
--     Numbers    each refusal's number and place
--     Order      what an order of checks is, and when each refusal is given
--     Calls      the order that most calls share, and what of it each kind of call is asked
pub mod Numbers
pub mod Order
pub mod Calls
