-- What the listing program prints (01, 'The listing program'), read from top to bottom.
--     Listing    the whole listing of k and n
--     Prints     the whole output for an input
--     State      where a listing stands
--     Paging     the output in pages, each in a lent buffer
pub mod Listing
pub mod Prints
pub mod State
pub mod Paging
