-- What reading promises stands in `record_spec`; here is what the test of the mark promises the reader (Mark).
pub mod Mark
