-- The exports of a module that stands for a run are decoded, in order, to the closed forms of the run's exports.
use Rattle.std.proofs.Common.{◌≡◌, ℕ, suc, List, [], ◌∷◌, map, Some, refl}
use Rattle.hol_spec.specs.ClosedForm.{closed_form}
use Rattle.hol_spec.specs.Proofs.{sequent_at, Accepted}
use Rattle.lp_spec.specs.Modules.{Declaration}
use Rattle.translate_spec.specs.Stands.{AreExports}
use Rattle.translate_spec.specs.Stands as stands
use Rattle.decode_spec.specs.Decode.{decode}
use Rattle.decode_spec.specs.DecodeStatements.{ExportsDecoded}
use Rattle.decode_laws.specs.DecodingLaws.{decode-Enc}

-- declarations that are the exports of a run from a place on are decoded to these exports' closed forms
pub AreExports-decoded : (m : List Declaration) (run : Accepted) (k : ℕ) (is : List ℕ) (ds : List Declaration) → AreExports m run k is ds
    → map (λ d. decode m d.ty) ds ≡ map (λ i. Some (closed_form (sequent_at run.made i))) is
AreExports-decoded m run k [] [] stands.AreExports.none = refl
AreExports-decoded m run k (i ∷ is) (d ∷ ds) (stands.AreExports.more name form says rest) =
    let first = decode-Enc m d.ty (closed_form (sequent_at run.made i)) says in
    λ j. first j ∷ AreExports-decoded m run (suc k) is ds rest j
AreExports-decoded m run k [] (d ∷ ds) h = elim h [ ]
AreExports-decoded m run k (i ∷ is) [] h = elim h [ ]

pub exports_decoded : ExportsDecoded
exports_decoded m run h = AreExports-decoded m run 0 run.exports _ h.exports
