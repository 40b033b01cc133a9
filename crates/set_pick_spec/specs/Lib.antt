-- What picking a target set promises (02, 'g'): the order of its refusals (Order), and its answers (Says).
pub mod Order
pub mod Says
