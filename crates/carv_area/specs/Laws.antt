-- What is proved of the definitions, file by file. `bytes_fixed` in Words: the words and the bytes behind the last whole word are every byte.
pub mod Table
pub mod Sums
pub mod Lists
pub mod Words
pub mod Zero
pub mod Rows
pub mod Keys
pub mod Search
pub mod Parts
pub mod Stored
pub mod Lookup
