-- What `show` and `article` make of their words: one or more files.
use Rattle.std.proofs.Common.{◌≡◌, ◌∙◌, ◌++◌, ℕ, false, List, [], ◌∷◌, Option, Some, None, codes, refl, sym, ap, ap₂, append_assoc}
use Rattle.std.specs.Prelude.{◌==◌, if◌then◌else◌}
use Rattle.std.specs.List.{AllByRecursion, fold, list_all}
use Rattle.clap.specs.Walk.{Rule, Row, Text, Walk, rows_after, walked, walk_from, nothing_held, positional, settled, finished, reading_by}
use Rattle.clap.specs.Kinds.{Kinds, or_else}
use Rattle.clap.specs.Faults.{walk_fault, turn_fault, defaults_fault, settle_fault, check_fault}
use Rattle.clap.specs.declared.parser.matches.ValueSource.TheVariants.{CommandLine}
use Rattle.bridge_spec.specs.Forms.{Form, files_form, are_files, is_file}
use Rattle.bridge_words.specs.Commands.{files_rule}
use Rattle.bridge_words.specs.Matches.{read_files}
use Rattle.bridge_words.proofs.WordKinds.{Kind, file, budget, named, fast, share, fast_valued, share_valued, other}
use Rattle.bridge_words.proofs.BuiltCommand.{files_leaf, filled_rule}
use Rattle.bridge_words.proofs.Leaves.{taken, fault}

abbrev rule : Rule
rule = filled_rule (Some 1) files_rule

-- the row of the files
abbrev row_for : List Text → List Row
row_for [] = []
row_for (w ∷ ws) = record { id = codes "file"; values = w ∷ ws; count = None; source = Some CommandLine; reading = reading_by rule } ∷ []

-- where the walk stands after files, of which the last is still pending
abbrev after : List Text → Text → Walk
after ws w = record {
  held = record { rows = row_for ws; pending = Some (codes "file", w ∷ []); skip = 0 };
  waiting = positional;
  position = 1;
  is_trailing = false;
  stopped = None;
}

-- the first file
first-file : (b : ℕ) (bs : Text) → (b == 45) ≡ false → walked (rule ∷ []) [] (walk_from nothing_held) (b ∷ bs) ≡ after [] (b ∷ bs)
unfolding walked
first-file b bs e = simp e refl

-- one more file
next-file : (ws : List Text) (w : Text) (b : ℕ) (bs : Text) → (b == 45) ≡ false → walked (rule ∷ []) [] (after ws w) (b ∷ bs) ≡ after (ws ++ w ∷ []) (b ∷ bs)
unfolding walked
next-file [] w b bs e = simp e refl
next-file (x ∷ ws) w b bs e = simp e refl

-- what is at fault at the end of a walk
abbrev end_fault : Text → Walk → Kinds
end_fault name w =
    or_else (settle_fault (rule ∷ []) false w.held)
    (or_else (defaults_fault (settled (rule ∷ []) w.held).rows (rule ∷ [])) (check_fault (files_leaf name) (finished (rule ∷ []) w.held) false))

-- what is asked for from where a walk stands, of which the next step has a fault
abbrev asked_from : Text → (List Text → Form) → Kinds → Walk → List Text → Option Form
asked_from name form step w ws =
    taken (or_else (or_else step (walk_fault (files_leaf name) [] w ws)) (end_fault name (fold (walked (rule ∷ []) []) w ws)))
    (read_files form (finished (rule ∷ []) (fold (walked (rule ∷ []) []) w ws).held))

module _ (name : Text) (form : List Text → Form) where
  file-fault : (ws : List Text) (w : Text) (b : ℕ) (bs : Text) → (b == 45) ≡ false → turn_fault (files_leaf name) [] (after ws w) (b ∷ bs) ≡ []
  file-fault ws w b bs e = simp e refl

  step : (ws : List Text) (w : Text) (b : ℕ) (bs : Text) (rest : List Text) → (b == 45) ≡ false
      → asked_from name form [] (after ws w) ((b ∷ bs) ∷ rest) ≡ asked_from name form [] (after (ws ++ w ∷ []) (b ∷ bs)) rest
  unfolding walk_fault
  step ws w b bs rest e = ap₂ (λ k v. asked_from name form k v rest) (file-fault ws w b bs e) (next-file ws w b bs e)

  ended : (ws : List Text) (w : Text) → asked_from name form [] (after ws w) [] ≡ Some (form (ws ++ w ∷ []))
  unfolding walk_fault defaults_fault
  ended [] w = refl
  ended (x ∷ ws) w = refl

  files-after : (rest : List Text) → AllByRecursion Kind rest → (ws : List Text) (w : Text)
      → asked_from name form [] (after ws w) rest ≡ (if list_all is_file rest then Some (form (ws ++ w ∷ rest)) else None)
  unfolding walked walk_fault
  files-after [] h ws w = ended ws w
  files-after (x ∷ rest) h ws w = go x h.0 (files-after rest h.1)
    where
      go : (x : Text) → Kind x
          → ((vs : List Text) (v : Text) → asked_from name form [] (after vs v) rest ≡ (if list_all is_file rest then Some (form (vs ++ v ∷ rest)) else None))
          → asked_from name form [] (after ws w) (x ∷ rest) ≡ (if list_all is_file (x ∷ rest) then Some (form (ws ++ w ∷ x ∷ rest)) else None)
      go x (file b bs e) more =
          let left : asked_from name form [] (after ws w) ((b ∷ bs) ∷ rest)
          ≡ (if list_all is_file rest then Some (form (ws ++ w ∷ (b ∷ bs) ∷ rest)) else None) =
          step ws w b bs rest e ∙ more (ws ++ w ∷ []) (b ∷ bs)
          ∙ ap (λ files. if list_all is_file rest then Some (form files) else None) (append_assoc ws (w ∷ []) ((b ∷ bs) ∷ rest)) in
          let right : list_all is_file ((b ∷ bs) ∷ rest) ≡ list_all is_file rest = simp e refl in
          left ∙ ap (λ all. if all then Some (form (ws ++ w ∷ (b ∷ bs) ∷ rest)) else None) (sym right)
      go x budget more = refl
      go x (named number) more = refl
      go x fast more = refl
      go x share more = refl
      go x (fast_valued value) more = refl
      go x (share_valued value) more = refl
      go x (other c cs o) more = refl

  first : (b : ℕ) (bs : Text) (rest : List Text) → (b == 45) ≡ false
      → asked_from name form [] (walk_from nothing_held) ((b ∷ bs) ∷ rest) ≡ asked_from name form [] (after [] (b ∷ bs)) rest
  unfolding walk_fault
  first b bs rest e = ap₂ (λ k v. asked_from name form k v rest) (first-fault b bs e) (first-file b bs e)
    where
      first-fault : (b : ℕ) (bs : Text) → (b == 45) ≡ false → turn_fault (files_leaf name) [] (walk_from nothing_held) (b ∷ bs) ≡ []
      first-fault b bs e = simp e refl

  pub files-words : (ws : List Text) → AllByRecursion Kind ws → taken (fault (files_leaf name) ws) (read_files form (rows_after (files_leaf name).rules [] ws))
      ≡ files_form form ws
  unfolding walked walk_fault defaults_fault
  files-words [] h = refl
  files-words (x ∷ rest) h = go x h.0 (files-after rest h.1)
    where
      go : (x : Text) → Kind x
          → ((vs : List Text) (v : Text) → asked_from name form [] (after vs v) rest ≡ (if list_all is_file rest then Some (form (vs ++ v ∷ rest)) else None))
          → asked_from name form [] (walk_from nothing_held) (x ∷ rest) ≡ files_form form (x ∷ rest)
      go x (file b bs e) more =
          let right : are_files ((b ∷ bs) ∷ rest) ≡ list_all is_file rest = simp e refl in
          first b bs rest e ∙ more [] (b ∷ bs) ∙ ap (λ all. if all then Some (form ((b ∷ bs) ∷ rest)) else None) (sym right)
      go x budget more = refl
      go x (named number) more = refl
      go x fast more = refl
      go x share more = refl
      go x (fast_valued value) more = refl
      go x (share_valued value) more = refl
      go x (other c cs o) more = refl
