-- The merge for C programs: one outcome in words.
pub mod Words
