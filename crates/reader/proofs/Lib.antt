-- One call of the reader, a run of its calls, and what a run over a segment of a cut list says.
pub mod Numbers
pub mod Calls
pub mod Runs
pub mod Segments
pub mod OneAnswer
