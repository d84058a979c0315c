-- The exports of the module of every accepted run are decoded, in order, to the closed forms of the run's exports.
use Rattle.std.proofs.Common.{◌≡◌, ℕ, List}
use Rattle.std.specs.List.{AllByRecursion}
use Rattle.hol_spec.specs.Mangling.{AreBytes}
use Rattle.hol_spec.specs.Proofs.{Accepted}
use Rattle.article_spec.specs.Run.{accepted, Run}
use Rattle.translate_spec.specs.Image.{image}
use Rattle.image_laws.specs.Named.{HasNames}
use Rattle.image_laws.specs.FaithfulRuns.{runs_are_faithful}
use Rattle.image_reach_laws.specs.NamedRuns.{runs_of_bytes_stand}
use Rattle.decode_spec.specs.DecodeStatements.{decoded_exports, closed_exports}
use Rattle.decode_laws.specs.ExportLaws.{AreExports-decoded, exports_decoded}

-- The exports of the module of an accepted run that has names are decoded to the closed forms of the run's exports.
abbrev pub RunsDecoded : Type 0
RunsDecoded = (articles : List (List ℕ)) (run : Accepted) → Run articles (accepted run) → HasNames run → decoded_exports (image run) ≡ closed_exports run

pub runs_decoded : RunsDecoded
runs_decoded articles run r named = AreExports-decoded (image run) run 0 run.exports _ (runs_are_faithful articles run r named).exports

-- So are those of the module of every accepted run over articles of bytes.
abbrev pub RunsOfBytesDecoded : Type 0
RunsOfBytesDecoded = (articles : List (List ℕ)) (run : Accepted) → AllByRecursion AreBytes articles → Run articles (accepted run) → decoded_exports (image run)
    ≡ closed_exports run

pub runs_of_bytes_decoded : RunsOfBytesDecoded
runs_of_bytes_decoded articles run bytes r = exports_decoded (image run) run (runs_of_bytes_stand articles run bytes r)
