-- The words so far are options, and the settings are what these say. Each turn takes two arguments.
use Rattle.std.proofs.Common.{◌≡◌, ◌++◌, length, map}
use Rattle.std.specs.Prelude.{string_bytes}
use Rattle.serve_options.specs.Arguments.{Options, OptionsSay, words_of}
use Rattle.serve_options.proofs.arguments.Settings.read.Given as goal

abbrev pub invariant-loop-rest : goal.invariant-loop-rest
invariant-loop-rest l = (options : Options) × (map string_bytes l.fn.arguments ≡ words_of options ++ map string_bytes l.rest) × OptionsSay options l.settings

abbrev pub decreases-loop-rest : goal.decreases-loop-rest
decreases-loop-rest l = length l.rest
