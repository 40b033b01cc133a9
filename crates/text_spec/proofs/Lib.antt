-- Laws of the listing program's texts: decimal text (Digits), texts put into a buffer (Put), and the page's own lines (Samples).
pub mod Digits
pub mod Put
pub mod Samples
