-- What the contracts say of calls made one after another, and that this is a history. Definitions only.
pub mod Running
