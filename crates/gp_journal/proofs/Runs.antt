-- Runs made longer, and what entries tell of a port that was followed through them.
use Rattle.std.proofs.Common.{◌≡◌, ◌+◌, ◌<◌, ℕ, List, [], ◌∷◌, ◌++◌, length, take, drop, get_or, true, refl, sym, ap, ◌∙◌, subst}
use Rattle.std.proofs.lemmas.List.{take_more, take-append-drop}
use Rattle.std.specs.Prelude.{Option, None, Some}
use Rattle.gp_machine.specs.declared.config.PortConfig.{PortConfig}
use Rattle.gp_machine.specs.declared.entry.Entry.{Entry}
use Rattle.gp_machine.specs.Config.{is_within_limits}
use Rattle.gp_machine.specs.State.{PortState, opening_of}
use Rattle.gp_machine.specs.Run.{IsStep, Run}
use Rattle.gp_journal.specs.Replays.{LeadsTo, Replays, start_of}
use Rattle.gp_journal.proofs.Configs.{run_config}

-- ---- runs

-- two runs, one after the other
pub Run-append : (first mid last : PortState) (xs ys : List Entry) → Run first xs mid → Run mid ys last → Run first (xs ++ ys) last
Run-append first mid last [] ys h k = subst (λ (port : PortState). Run port ys last) h k
Run-append first mid last (x ∷ xs) ys h k = (h.0, h.1, Run-append h.0 mid last xs ys h.2 k)

-- a run of one step
pub Run-one : (port last : PortState) (entry : Entry) → IsStep port entry last → Run port (entry ∷ []) last
Run-one port last entry step = (last, step, refl)

-- a step more
pub Run-push : (first mid last : PortState) (entries : List Entry) (entry : Entry) → Run first entries mid → IsStep mid entry last → Run first (entries ++ entry ∷ []) last
Run-push first mid last entries entry h step = Run-append first mid last entries (entry ∷ []) h (Run-one mid last entry step)

-- a run stands somewhere after its first entries
pub Run-split : (first last : PortState) (xs ys : List Entry) → Run first (xs ++ ys) last → (mid : PortState) × Run first xs mid × Run mid ys last
Run-split first last [] ys h = (first, refl, h)
Run-split first last (x ∷ xs) ys h =
    let rest = Run-split h.0 last xs ys h.2 in
    (rest.0, (h.0, h.1, rest.1), rest.2)

-- ---- what is followed

pub LeadsTo-none : (port : PortState) → LeadsTo port [] port
LeadsTo-none port = record { run = refl; alone = λ other h. h }

-- a step more, which leads to one state alone
pub LeadsTo-push : (first mid last : PortState) (entries : List Entry) (entry : Entry) → LeadsTo first entries mid → IsStep mid entry last → ((after : PortState) → IsStep mid entry after → after ≡ last)
    → LeadsTo first (entries ++ entry ∷ []) last
LeadsTo-push first mid last entries entry h step alone = record {
  run = Run-push first mid last entries entry h.run step;
  alone = λ other run.
      let parts = Run-split first other entries (entry ∷ []) run in
      let stood : parts.0 ≡ mid = h.alone parts.0 parts.1 in
      let one : IsStep mid entry parts.2.0 = subst (λ (port : PortState). IsStep port entry parts.2.0) stood parts.2.1 in
      parts.2.2 ∙ alone parts.2.0 one;
}

-- one entry more of a list
take_entry : (entries : List Entry) (i : ℕ) (entry : Entry) → i < length entries → entry ≡ get_or entries i entry → take (i + 1) entries ≡ take i entries ++ entry ∷ []
take_entry entries i entry l is = take_more entries i entry l ∙ ap (λ (w : Entry). take i entries ++ w ∷ []) (sym is)

-- the next entry of a list leads to one state alone
pub LeadsTo-more : (first mid last : PortState) (entries : List Entry) (i : ℕ) (entry : Entry) → i < length entries → entry ≡ get_or entries i entry → LeadsTo first (take i entries) mid → IsStep mid entry last
    → ((after : PortState) → IsStep mid entry after → after ≡ last) → LeadsTo first (take (i + 1) entries) last
LeadsTo-more first mid last entries i entry l is h step alone =
    subst (λ (w : List Entry). LeadsTo first w last) (sym (take_entry entries i entry l is)) (LeadsTo-push first mid last (take i entries) entry h step alone)

-- the next entry of a list is no step: the list is no run
pub LeadsTo-stops : (first mid last : PortState) (entries : List Entry) (i : ℕ) (entry : Entry) → i < length entries → entry ≡ get_or entries i entry → LeadsTo first (take i entries) mid
    → ((after : PortState) → IsStep mid entry after → ⊥) → Run first entries last → ⊥
LeadsTo-stops first mid last entries i entry l is h refuted run =
    let whole : Run first (take (i + 1) entries ++ drop (i + 1) entries) last = subst (λ (w : List Entry). Run first w last) (sym (take-append-drop (i + 1) entries)) run in
    let prefix = Run-split first last (take (i + 1) entries) (drop (i + 1) entries) whole in
    let more : Run first (take i entries ++ entry ∷ []) prefix.0 = subst (λ (w : List Entry). Run first w prefix.0) (take_entry entries i entry l is) prefix.1 in
    let parts = Run-split first prefix.0 (take i entries) (entry ∷ []) more in
    refuted parts.2.0 (subst (λ (port : PortState). IsStep port entry parts.2.0) (h.alone parts.0 parts.1) parts.2.1)

-- ---- what a journal tells

-- a journal of no entries
pub Replays-none : (config : PortConfig) (base : Option PortState) → is_within_limits config ≡ true → (start_of config base).config ≡ config → Replays config base [] (start_of config base)
Replays-none config base within configured = record { within = within; configured = configured; run = refl }

-- that of a port that was just opened
pub Replays-opened : (config : PortConfig) → is_within_limits config ≡ true → Replays config None [] (opening_of config)
Replays-opened config within = Replays-none config None within refl

-- the state after the entries has the configuration
pub Replays-config : (config : PortConfig) (base : Option PortState) (entries : List Entry) (last : PortState) → Replays config base entries last → last.config ≡ config
Replays-config config base entries last h = run_config (start_of config base) entries last h.run ∙ h.configured

-- that of a port whose journal was just cut
pub Replays-cut : (config : PortConfig) (base : Option PortState) (entries : List Entry) (last : PortState) → Replays config base entries last → Replays config (Some last) [] last
Replays-cut config base entries last h = Replays-none config (Some last) h.within (Replays-config config base entries last h)

-- two journals, one after the other
pub Replays-append : (config : PortConfig) (base : Option PortState) (mid last : PortState) (xs ys : List Entry) → Replays config base xs mid → Replays config (Some mid) ys last → Replays config base (xs ++ ys) last
Replays-append config base mid last xs ys h k = record {
  within = h.within;
  configured = h.configured;
  run = Run-append (start_of config base) mid last xs ys h.run k.run;
}

-- an entry more
pub Replays-push : (config : PortConfig) (base : Option PortState) (mid last : PortState) (entries : List Entry) (entry : Entry) → Replays config base entries mid → IsStep mid entry last
    → Replays config base (entries ++ entry ∷ []) last
Replays-push config base mid last entries entry h step = record {
  within = h.within;
  configured = h.configured;
  run = Run-push (start_of config base) mid last entries entry h.run step;
}

-- a port that was followed through the entries stands where they lead, and where they lead there it stands
pub Replays-followed : (config : PortConfig) (base : Option PortState) (entries : List Entry) (followed last : PortState)
    → is_within_limits config ≡ true → (start_of config base).config ≡ config → LeadsTo (start_of config base) entries followed
    → (followed ≡ last → Replays config base entries last) × (Replays config base entries last → followed ≡ last)
Replays-followed config base entries followed last within configured leads = (
  λ same. record { within = within; configured = configured; run = subst (λ (port : PortState). Run (start_of config base) entries port) same leads.run },
  λ h. sym (leads.alone last h.run),
)
