-- What writing promises stands in `record_spec`; here is what its parts promise each other (Head).
pub mod Head
