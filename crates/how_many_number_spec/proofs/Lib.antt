-- Values of the definitions, computed (Cases). Their theorems: `how_many_number_laws`.
pub mod Cases
