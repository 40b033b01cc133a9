-- What checking one record of an old catalogue promises (Old); it serves the code alone.
pub mod Old
