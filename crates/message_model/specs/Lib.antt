-- What messages look like on the wire: packages, the text and the tree of a unit, and message files.
pub mod Package
pub mod UnitText
pub mod UnitTree
pub mod Wire
