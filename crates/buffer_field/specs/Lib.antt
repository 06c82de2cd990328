pub mod BufferFields
