-- The module of every accepted run stands for its run: each of its declarations is an export, or one that is reached uses it.
use Rattle.std.proofs.Common.{◌≡◌, ℕ, ◌+◌, List, [], length, Bool, true, Some, None, slice_get, refl, sym, ap, subst, ◌∙◌, arith}
use Rattle.hol_spec.specs.Proofs.{Accepted}
use Rattle.hol_spec.specs.Lists.{IsIn}
use Rattle.hol_laws.specs.Members.{All-at}
use Rattle.article_spec.specs.Run.{accepted, Run}
use Rattle.article_spec.specs.SoundRuns.{IsSoundRun}
use Rattle.article_laws.specs.SoundSteps.{runs_are_sound}
use Rattle.lp_spec.specs.Modules.{Declaration, signature}
use Rattle.translate_spec.specs.Scopes.{constant_symbol, generic_type}
use Rattle.translate_spec.specs.Items.{Item, declaration, symbols_of, module_of}
use Rattle.translate_spec.specs.MadeItems.{items_of, roots_of}
use Rattle.translate_spec.specs.Reach.{Key, gives, needs, key_eq, kept, renumbered, renumbered_content, keep_of, symbol_of, image_items}
use Rattle.translate_spec.specs.Image.{name_in, image}
use Rattle.translate_spec.specs.Stands.{occurs, uses, is_export_name, IsReached, StandsForRun}
use Rattle.translate_laws.specs.BodyTyping.{IsIn-map}
use Rattle.translate_laws.specs.MadeModules.{AreMade}
use Rattle.translate_laws.specs.KeptModules.{IsIn-kept, image-made}
use Rattle.translate_laws.specs.WantedItems.{AreMadeInOrder, made-numbered}
use Rattle.image_laws.specs.AcceptedRuns.{runs_are_carried}
use Rattle.image_laws.specs.FaithfulRuns.{runs_are_faithful, faithful-stands}
use Rattle.image_laws.specs.Named.{HasNames}
use Rattle.image_laws.specs.Origins.{made-origins}
use Rattle.image_laws.specs.Reaching.{IsReachedItem, made-reached}
use Rattle.image_laws.specs.RunModules.{declaration-name}
use Rattle.image_laws.specs.Standing.{origins-all, each-declaration}
use Rattle.image_reach_laws.specs.Keys.{key_eq-is}
use Rattle.image_reach_laws.specs.ModuleItems.{item-placed, item-asked, item-key, gives-new, constant-of}
use Rattle.image_reach_laws.specs.ItemUses.{KeyUses, IsUsing, type-use, generic-uses, content-uses}
use Rattle.image_reach_laws.specs.NeededItems.{items-using, using-renumbered, renumbered_key, gives-renumbered, needs-renumbered}
use Rattle.image_reach_laws.specs.RootItems.{root-named}

-- the declaration of an item is reached
abbrev pub IsItemReached : List Item → Item → Type 0
IsItemReached xs z = (l : ℕ) → length signature + l ≡ z.symbol → IsReached (module_of (symbols_of xs) xs) l

module _ (xs : List Item) (made : AreMade [] xs) where
  -- what a declaration uses is reached with it
  used-reached : (y z : Item) → IsIn xs y → IsItemReached xs y → (s : ℕ) → s ≡ z.symbol → uses (declaration (symbols_of xs) y) s ≡ true → IsItemReached xs z
  used-reached y z i reached s is used l at =
      let p = item-placed xs made y i in
      IsReached.used p.number (declaration (symbols_of xs) y) (reached p.number (sym p.symbol)) p.at
      (ap (λ r. uses (declaration (symbols_of xs) y) r) (at ∙ sym is) ∙ used)

  -- What an item needs is reached with it
  needed-reached : (y z : Item) → IsIn xs y → IsIn xs z → IsItemReached xs y → IsUsing y.content → IsIn (needs y.content) (gives z) → IsItemReached xs z
  needed-reached y z iy iz reached using need =
      let asked = item-asked xs made y iy in
      let new = gives-new (item-asked xs made z iz).before z.symbol z.content (item-asked xs made z iz).new in
      elim (content-uses xs made asked.before asked.among (gives z) y.name y.content asked.content using need) [
        | KeyUses.it used ↦ used-reached y z iy reached _ (item-key xs made z iz) used
        | KeyUses.by_constant n used i ↦
            let w = constant-of xs n (gives z) new i in
            used-reached w.item z w.among (used-reached y w.item iy reached (constant_symbol (symbols_of xs) n) w.symbol used) _ (item-key xs made z iz)
            (type-use (declaration (symbols_of xs) w.item) _ (ap (occurs _) w.ty ∙ generic-uses (symbols_of xs) (gives z) (generic_type (symbols_of xs) n) i))
      ]

  -- an item that is named as an export is reached
  export-reached : (z : Item) → IsIn xs z → is_export_name z.name ≡ true → IsItemReached xs z
  export-reached z i e l at =
      let p = item-placed xs made z i in
      let place = p.symbol in
      let same : p.number ≡ l = omega (arith, place, at) in
      subst (IsReached (module_of (symbols_of xs) xs)) same
      (IsReached.export (declaration (symbols_of xs) z) p.at (ap is_export_name (declaration-name (symbols_of xs) z.name z.content) ∙ e))

module _ (run : Accepted) (named : HasNames run) (sound : IsSoundRun run) where
  abbrev items : List Item
  items = items_of (name_in run) run.made

  abbrev roots : List Key
  roots = roots_of (name_in run) run.made run.exports

  abbrev keep : ℕ → Bool
  keep = keep_of roots items

  abbrev number : ℕ → ℕ
  number = symbol_of keep

  abbrev stays : List Item
  stays = image_items keep items

  module _ (order : AreMadeInOrder [] items) where
    made : AreMade [] stays
    made = image-made keep [] items refl (made-numbered roots [] items (tt {0}) order)

    staying : (z : Item) → IsIn items z → keep z.symbol ≡ true → IsIn stays (renumbered number z)
    staying z i k = IsIn-map (renumbered number) (kept keep items) z (IsIn-kept keep items z i k)

    using : (z : Item) → IsIn items z → IsUsing (renumbered number z).content
    using z i = using-renumbered number z.content (All-at (λ (z : Item). IsUsing z.content) items z (items-using (name_in run) run.made) i)

    need : (y z : Item) (k : Key) → IsIn (needs y.content) k → key_eq (gives z) k ≡ true
        → IsIn (needs (renumbered number y).content) (gives (renumbered number z))
    need y z k i e =
        subst (IsIn (needs (renumbered_content number y.content)))
        (ap (renumbered_key number) (sym (key_eq-is (gives z) k e)) ∙ gives-renumbered number z.symbol z.content)
        (needs-renumbered number y.content k i)

    -- Each kept item is reached
    item-reached : (z : Item) → IsReachedItem roots items z → IsIn items z → keep z.symbol ≡ true → IsItemReached stays (renumbered number z)
    item-reached z (IsReachedItem.root k root e) i kz =
        export-reached stays made (renumbered number z) (staying z i kz) (root-named run named sound order z i k root e)
    item-reached z (IsReachedItem.needed y k h iy ky i e) iz kz =
        needed-reached stays made (renumbered number y) (renumbered number z) (staying y iy ky) (staying z iz kz) (item-reached y h iy ky) (using y iy)
        (need y z k i e)

    pub unproved-reached : (i : ℕ) (d : Declaration) → slice_get (image run) i ≡ Some d → d.body ≡ None → IsReached (image run) i
    unproved-reached =
        each-declaration run named sound order (origins-all run [] items (made-origins run run.made)) (λ i d. d.body ≡ None → IsReached (image run) i)
        (λ e. absurd (cc)) (λ e. absurd (cc))
        (λ z i k l at none. item-reached z (made-reached roots items order z i k) i k l at)

-- The law: the module of an accepted run stands for it
abbrev pub RunsStand : Type 0
RunsStand = (articles : List (List ℕ)) (run : Accepted) → Run articles (accepted run) → HasNames run → StandsForRun (image run) run

pub runs_stand : RunsStand
runs_stand articles run r named =
    faithful-stands (image run) run (runs_are_faithful articles run r named)
    (unproved-reached run named (runs_are_sound articles run r) (runs_are_carried (name_in run) articles run r).in_order)
