pub mod Board
