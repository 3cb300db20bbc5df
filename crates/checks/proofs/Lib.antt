pub mod RefusalLaws
pub mod SoundMemories
pub mod CheckCodes
pub mod BeginKeys
