-- What looking at the class in a record answers (Looked), which serves the code alone.
pub mod Looked
