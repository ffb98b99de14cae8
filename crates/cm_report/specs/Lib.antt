-- What the contracts on the lines of a report and on telling it cite beside the definitions.
pub mod Sent
pub mod Reason
pub mod Telling
