-- Laws of the program: what it reads (Input), and page after page to the end (Turns).
pub mod Input
pub mod Turns
