-- Walks (01, 'Walks'): the record (Record), and what a start and a step promise (Says).
pub mod Record
pub mod Says
