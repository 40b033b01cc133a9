-- Laws of the plan of two numbers: powers under a limit (Power), what it tells (Given), and that no numbers have two plans (Unique).
pub mod Power
