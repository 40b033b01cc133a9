-- From reflectances to shades (02, i), read from top to bottom.
--     Cuts     the card, its cuts, and the shade of a value
--     Order    when a call is refused, and with what
--     Says     what the two calls promise
pub mod Cuts
pub mod Order
pub mod Says
