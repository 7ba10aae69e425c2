pub mod BytesOfAFile
