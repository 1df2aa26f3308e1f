pub mod Standard
