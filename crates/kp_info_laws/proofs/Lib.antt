pub mod Infos
