-- The sectors of a record, from the contracts of classifying and of the checks (Bodies).
pub mod Bodies
