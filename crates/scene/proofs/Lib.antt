pub mod FirstEntries
pub mod Takes
pub mod Starts
pub mod Searches
pub mod Asked
pub mod Groups
pub mod Summaries
