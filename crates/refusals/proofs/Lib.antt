-- What is known of an accepted row.
pub mod Accepting
