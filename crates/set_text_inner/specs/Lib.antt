-- What is asked of places whose rings are printed (Says).
pub mod Says
