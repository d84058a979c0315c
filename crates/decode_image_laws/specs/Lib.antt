pub mod RunExports
