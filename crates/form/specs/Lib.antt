pub mod Kind
pub mod Form
pub mod Reader
pub mod Place
pub mod Files
