pub mod Causes
pub mod Shelf
pub mod Sink
pub mod Files
pub mod MemShelf
pub mod MemSink
