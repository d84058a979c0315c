-- Each line of the prelude reads as the declaration of its symbol, by computation.
use Rattle.std.proofs.Common.{◌≡◌, ℕ, refl, ap, ◌∙◌, List, [], ◌++◌, length}
use Rattle.lp_spec.specs.Modules.{Declaration}
use Rattle.lp_spec.specs.Text.{prelude}
use Rattle.lp_spec.specs.TextLaws.{PreludeReads}
use Rattle.lp_spec.specs.Tokens.{Nothing}
use Rattle.lp_spec.specs.Reading.{Reads}
use Rattle.lp_spec.specs.ReadingFaults.{Between, Inside, read_bytes, read_end, reads}
use Rattle.dk_laws.specs.ReadingLaws.{prelude_read, answer-Reads}

-- a text after the prelude that is read as a module
says : (text : List ℕ) (m : List Declaration) → read_end (read_bytes (Inside (length prelude) Nothing [] Between) text) ≡ reads m → Reads (prelude ++ text) m
says text m h = answer-Reads (prelude ++ text) m (ap read_end (prelude_read 0 prelude text) ∙ h)

-- the law of the prelude holds
pub prelude_reads : PreludeReads
prelude_reads = (
  record { is = refl; says = says _ _ refl },
  (
    record { is = refl; says = says _ _ refl },
    (
      record { is = refl; says = says _ _ refl },
      (
        record { is = refl; says = says _ _ refl },
        (
          record { is = refl; says = says _ _ refl },
          (
            record { from = says _ _ refl; to = says _ _ refl },
            (
              record { is = refl; says = says _ _ refl },
              (
                record { is = refl; says = says _ _ refl },
                (
                  record { is = refl; says = says _ _ refl },
                  (
                    record { is = refl; says = says _ _ refl },
                    (
                      record { is = refl; says = says _ _ refl },
                      (
                        record { is = refl; says = says _ _ refl },
                        (
                          record { is = refl; says = says _ _ refl },
                          (
                            record { is = refl; says = says _ _ refl },
                            (
                              record { is = refl; says = says _ _ refl },
                              (
                                record { is = refl; says = says _ _ refl },
                                (
                                  record { is = refl; says = says _ _ refl },
                                  (record { is = refl; says = says _ _ refl }, (record { is = refl; says = says _ _ refl }, tt {0})),
                                ),
                              ),
                            ),
                          ),
                        ),
                      ),
                    ),
                  ),
                ),
              ),
            ),
          ),
        ),
      ),
    ),
  ),
)
