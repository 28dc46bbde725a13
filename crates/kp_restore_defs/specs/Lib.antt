pub mod BatchText
pub mod BatchesBetween
pub mod FirstBadLine
pub mod RuleText
pub mod TableText
