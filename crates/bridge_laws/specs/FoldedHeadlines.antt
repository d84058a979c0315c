-- The folded module of every accepted run: its text reads back, it stands for its run, each check ends within its bound, and what is shared is
-- written out once.
use Rattle.std.proofs.Common.{◌≡◌, ◌≤◌, ℕ, ◌*◌, ◌+◌, ◌^◌, true, List, length, slice_get, Some, sym, subst, arith}
use Rattle.std.specs.Prelude.{min, drop}
use Rattle.std.specs.List.{AllByRecursion}
use Rattle.std.proofs.lemmas.Nat.{mul-le}
use Rattle.std.proofs.lemmas.List.{length-map}
use Rattle.hol_spec.specs.Mangling.{AreBytes}
use Rattle.hol_spec.specs.Proofs.{Accepted}
use Rattle.article_spec.specs.Run.{accepted, Run}
use Rattle.article_laws.specs.SoundSteps.{runs_are_sound}
use Rattle.lp_spec.specs.Lemmas.{lemmas}
use Rattle.lp_spec.specs.ModuleOrder.{IsModule}
use Rattle.lp_spec.specs.Modules.{Declaration}
use Rattle.lp_spec.specs.Weight.{weight, greatest, bound}
use Rattle.lp_check_laws.specs.ShapedPasses.{square-cube}
use Rattle.lp_fast_laws.specs.FastPrices.{priced-fast}
use Rattle.translate_spec.specs.Image.{image, name_in}
use Rattle.image_laws.specs.AcceptedRuns.{runs_are_carried}
use Rattle.image_laws.specs.RunModules.{runs_are_modules}
use Rattle.image_reach_laws.specs.NamedRuns.{run-has_names, runs_of_bytes_stand}
use Rattle.image_bound_laws.specs.ShallowRuns.{runs_are_shallow}
use Rattle.image_bound_laws.specs.SmallRuns.{greatest_weight, run-weights}
use Rattle.hol_proof_laws.specs.ProofGrowth.{All-get}
use Rattle.share_spec.specs.Folded.{folded, places, entries_of, place_in}
use Rattle.share_spec.specs.MovedTrees.{moved}
use Rattle.share_spec.specs.WrittenOnce.{all_written}
use Rattle.share_laws.specs.FoldedShapes.{folded-priced}
use Rattle.share_laws.specs.FoldedTexts.{folded-ReadsBack}
use Rattle.share_laws.specs.FoldedStandsLaws.{folded-FoldedStands}
use Rattle.share_laws.specs.FoldedWeights.{folded-weights}
use Rattle.share_laws.specs.WrittenOnceLaws.{written_once}
use Rattle.bridge_spec.specs.Headline.{Headline}
use Rattle.bridge_spec.specs.Texts.{module_of, module_bounds}
use Rattle.bridge_laws.specs.PlainNames.{image-ArePlain, image-NoneShort}

-- a weight of a folded module is below 2 ^ 43
small-weight : (w : ℕ) → w ≤ 5 * greatest_weight + 4 → w ≤ 2 ^ 43
small-weight w l = omega (arith, l)

-- 64 times the square of such a weight is within the bound, cut off or not
square-bound : (w : ℕ) → w ≤ 2 ^ 43 → 64 * (w * w) ≤ min (64 * (w * w * w)) greatest
square-bound w small =
    let two = mul-le w w (2 ^ 43) (2 ^ 43) small small in
    omega (arith, two, square-cube w)

-- and within that of a check without rechecks of sorts
square-fast_bound : (w : ℕ) → w ≤ 2 ^ 43 → 64 * (w * w) ≤ min (64 * (w * w)) greatest
square-fast_bound w small =
    let two = mul-le w w (2 ^ 43) (2 ^ 43) small small in
    omega (arith, two)

pub each_folded_run_carries : (texts : List (List ℕ)) (run : Accepted) → AllByRecursion AreBytes texts → Run texts (accepted run) → Headline true run
each_folded_run_carries texts run bytes r =
    let named = run-has_names texts run bytes r in
    let sound = runs_are_sound texts run r in
    let unshort = image-NoneShort run named sound in
    let shaped = (runs_are_carried (name_in run) texts run r).shaped in
    let declared = runs_are_modules texts run r named in
    let back = folded-ReadsBack (image run) (module_bounds true run) declared unshort shaped (image-ArePlain run named sound) (runs_are_shallow texts run r)
    (length-map (folded (image run)) (bound (folded (image run)))) in
    let weights : (i : ℕ) (d : Declaration) → slice_get (folded (image run)) i ≡ Some d → weight (folded (image run)) d ≤ 2 ^ 43 =
    λ i d e. small-weight (weight (folded (image run)) d)
    (All-get (λ c. weight (folded (image run)) c ≤ 5 * greatest_weight + 4) (folded (image run)) i d
    (folded-weights greatest_weight (image run) shaped (run-weights texts run r)) e) in
    record {
      reads = back.read;
      only = back.only;
      stands = folded-FoldedStands (image run) run unshort shaped (runs_of_bytes_stand texts run bytes r);
      within = λ i d e.
          let p = folded-priced (image run) shaped i d e in
          record { price = p.price; by = p.check; within = omega (arith, p.within, square-bound (weight (folded (image run)) d) (weights i d e)) };
      within_fast = λ i d e.
          let f = priced-fast (folded (image run)) i d (folded-priced (image run) shaped i d e) in
          record { price = f.0; by = f.1; within = omega (arith, f.2, square-fast_bound (weight (folded (image run)) d) (weights i d e)) };
      once = λ rest t e h. subst (λ m. places (moved (place_in (entries_of m)) t) (all_written lemmas (drop (length lemmas) (folded m))) ≤ 1) (sym e)
          (written_once rest t (subst IsModule e declared) h);
      proof = sound.proof;
      derived = sound.exports;
    }
