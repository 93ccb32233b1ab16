pub mod LawfulTags
