-- How what is known of a port's units is kept: a row for each ONU-ID and for each serial number that is followed, one
-- for all other serial numbers, and an owner for each Alloc-ID (this profile's own rule).
use Rattle.std.specs.Prelude.{◌≡◌, ℕ, Bool, List, length, Option, None, Some, refl, slice_index_or}
use Rattle.std.specs.Coded.{Coded, code_by, coded×, coded_list, coded_bool}
use Rattle.std.specs.FinMap.{get}
use Rattle.std.specs.FinMap as map
use Rattle.gp_ploam.specs.declared.message.Serial.{Serial}
use Rattle.gp_ploam.specs.Serials.{coded_serial}
use Rattle.hear_rules.specs.Facts as facts
use Rattle.hear_rules.specs.Known.{Known, Number, Unheard, Nobodys, Of, Owner, Unclear, Free, Has}
use Rattle.hear_state.specs.declared.facts.Fact.{Fact}
use Rattle.hear_state.specs.declared.facts.Fact.TheVariants as fact
use Rattle.hear_state.specs.declared.facts.Sure.{Sure}
use Rattle.hear_state.specs.declared.facts.Sure.TheVariants as sure
use Rattle.hear_state.specs.contracts.facts.Sure as sures
use Rattle.hear_state.specs.declared.rows.Row.{Row}
use Rattle.hear_state.specs.declared.rows.Row.TheVariants as row
use Rattle.hear_state.specs.contracts.rows.Row as rows
use Rattle.hear_state.specs.declared.index.Followed.{Followed}
use Rattle.hear_state.specs.contracts.index.Followed as followeds
use Rattle.hear_state.specs.Facts.{fact_of, sure_of}
use Rattle.hear_state.specs.Owners.{owner_code}
use Rattle.hear_state.specs.Rows.{number_of}
use Rattle.hear_state.specs.Index.{Followeds}

pub record Kept : Type 0 where
  -- the rows of the ONU-IDs
  pub rows : List Row
  -- the serial numbers that are followed
  pub followed : Followeds
  -- what is known of each other serial number
  pub others : Followed
  -- the owners of the Alloc-IDs
  pub owners : List Owner
  pub overhead : Sure
  pub up : Bool

-- it is stored as its parts
abbrev pub kept_code : Coded Kept
kept_code =
    code_by (List Row × (Followeds × (Followed × (List Owner × (Sure × Bool)))))
    (coded× (coded_list rows.the_row.coded)
    (coded× (map.code coded_serial followeds.the_row.coded)
    (coded× followeds.the_row.coded
    (coded× (coded_list owner_code) (coded× sures.the_row.coded coded_bool)))))
    (λ k. (k.rows, (k.followed, (k.others, (k.owners, (k.overhead, k.up))))))
    (λ p. record {
      rows = p.0;
      followed = p.1.0;
      others = p.1.1.0;
      owners = p.1.1.1.0;
      overhead = p.1.1.1.1.0;
      up = p.1.1.1.1.1;
    })
    (λ _. refl)

-- ---- what it says

-- the row of a number above 255, which no unit has: once it is known that no other serial number holds one, it is
-- nobody's
abbrev pub row_beyond : Fact ℕ → Row
row_beyond fact.Unknown = row.Unheard
row_beyond fact.Nothing = row.Nobodys
row_beyond (fact.Is onu) = row.Nobodys

abbrev pub row_at : Kept → ℕ → Row
row_at kept onu = slice_index_or kept.rows onu (row_beyond kept.others.holds)

abbrev pub followed_or : Option Followed → Followed → Followed
followed_or None others = others
followed_or (Some followed) others = followed

abbrev pub followed_at : Kept → Serial → Followed
followed_at kept serial = followed_or (get kept.followed serial) kept.others

-- an Alloc-ID above 4,095, which none is: where each ask is known nothing was said before, so it is nobody's
abbrev pub owner_beyond : Option ℕ → Owner
owner_beyond None = Unclear
owner_beyond (Some asks) = Free facts.Nothing

abbrev pub owner_at : Kept → ℕ → Owner
owner_at kept alloc = slice_index_or kept.owners alloc (owner_beyond kept.others.asks)

-- what is known by it
abbrev pub known_of : Kept → Known
known_of kept =
    record {
      numbers = λ onu. number_of (row_at kept onu);
      holds = λ serial. let followed = followed_at kept serial in fact_of followed.holds;
      disabled = λ serial. let followed = followed_at kept serial in sure_of followed.disabled;
      asks = λ serial. let followed = followed_at kept serial in followed.asks;
      asked = λ serial. let followed = followed_at kept serial in sure_of followed.asked;
      owners = λ alloc. owner_at kept alloc;
      overhead = sure_of kept.overhead;
      up = kept.up;
    }

-- ---- the same is known

-- of the units
pub record SameUnits (one other : Known) : Type 0 where
  pub numbers : (onu : ℕ) → one.numbers onu ≡ other.numbers onu
  pub holds : (serial : Serial) → one.holds serial ≡ other.holds serial
  pub disabled : (serial : Serial) → one.disabled serial ≡ other.disabled serial
  pub asks : (serial : Serial) → one.asks serial ≡ other.asks serial
  pub asked : (serial : Serial) → one.asked serial ≡ other.asked serial
  pub overhead : one.overhead ≡ other.overhead
  pub up : one.up ≡ other.up

-- all of it
pub record SameKnown (one other : Known) : Type 0 where
  pub units : SameUnits one other
  pub owners : (alloc : ℕ) → one.owners alloc ≡ other.owners alloc

-- ---- what it keeps

-- who holds an ONU-ID
abbrev pub holder_of : Number → Option Serial
holder_of Unheard = None
holder_of Nobodys = None
holder_of (Of holder delay answers) = Some holder

-- each holder holds its ONU-ID, and no other serial number does
pub record IsIndexed (known : Known) : Type 0 where
  pub held : (onu : ℕ) (serial : Serial) → holder_of (known.numbers onu) ≡ Some serial
      → known.holds serial ≡ facts.Is onu
  pub holder : (onu : ℕ) (serial : Serial) → known.holds serial ≡ facts.Is onu
      → holder_of (known.numbers onu) ≡ Some serial

-- of a serial number that isn't followed it isn't known that it holds an ONU-ID, nor that it asked
abbrev pub IsNot : {X : Type 0} → Fact X → Type 0
IsNot (fact.Is value) = ⊥
IsNot _ = Unit {0}

abbrev pub IsNotYes : Sure → Type 0
IsNotYes sure.Yes = ⊥
IsNotYes _ = Unit {0}

pub record AreIndexed (kept : Kept) : Type 0 where
  pub long : length kept.rows ≡ 256
  pub unheld : IsNot kept.others.holds
  pub unasked : IsNotYes kept.others.asked
  pub indexed : IsIndexed (known_of kept)

-- an ONU-ID that has an Alloc-ID, or had one last, was heard of
abbrev pub IsHeard : Number → Type 0
IsHeard Unheard = ⊥
IsHeard _ = Unit {0}

abbrev pub WasHeard : (ℕ → Number) → facts.Fact ℕ → Type 0
WasHeard numbers facts.Unknown = Unit {0}
WasHeard numbers facts.Nothing = Unit {0}
WasHeard numbers (facts.Is onu) = IsHeard (numbers onu)

abbrev pub OwnerIsHeard : (ℕ → Number) → Owner → Type 0
OwnerIsHeard numbers Unclear = Unit {0}
OwnerIsHeard numbers (Free last) = WasHeard numbers last
OwnerIsHeard numbers (Has onu last) = IsHeard (numbers onu)

abbrev pub IsOwned : Known → Type 0
IsOwned known = (alloc : ℕ) → OwnerIsHeard known.numbers (known.owners alloc)

pub record IsKept (kept : Kept) : Type 0 where
  pub units : AreIndexed kept
  pub allocs : length kept.owners ≡ 4096
  pub owned : IsOwned (known_of kept)
