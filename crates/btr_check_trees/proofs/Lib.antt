pub mod ChunkItems
pub mod ChunkTree
pub mod Imports
pub mod KindRules
pub mod OneMore
pub mod SameChunks
pub mod Summing
pub mod Telling
