-- Lists of blocked names, line by line and name by name.
pub mod AddedLists
pub mod FirstBytes
pub mod KeptNames
pub mod ListReports
pub mod ListedLines
pub mod ShortenedNames
