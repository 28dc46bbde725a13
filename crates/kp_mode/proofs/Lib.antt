pub mod CallLemmas
mod SeenLemmas
