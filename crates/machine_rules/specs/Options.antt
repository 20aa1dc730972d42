-- What a run may choose: the weight and the tracing.
pub use Rattle.orca_names.specs.declared.options.Options.{Options}
