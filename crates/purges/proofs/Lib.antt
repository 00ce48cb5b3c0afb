pub mod PurgeLaws
