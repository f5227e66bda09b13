-- How a document's bytes are cut into items, and how items are written.
pub mod Classes
pub mod Cutting
pub mod Grammar
pub mod Items
pub mod Raw
