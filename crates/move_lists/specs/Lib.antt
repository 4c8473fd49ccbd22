pub mod MoveLists
