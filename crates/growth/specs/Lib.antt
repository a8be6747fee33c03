-- Growth (01, "The window and its refills", module 1): a policy's next size, the chain of capacities, and the largest that is reachable.
pub mod Growth
pub mod Chain
