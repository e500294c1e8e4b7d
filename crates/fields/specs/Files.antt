-- A file as the fields of records, one after the other, in any format.
use Rattle.std.specs.Prelude.{◌≡◌, ℕ, ◌<◌, Bool, true, false, ◌⊎◌, List, [], ◌∷◌, ◌++◌, length}
use Rattle.std.specs.List.{flat_map}
use Rattle.fields.specs.declared.fault.FaultKind.{FaultKind}
use Rattle.fields.specs.declared.fault.FaultKind.TheVariants.{TagOrder}
use Rattle.fields.specs.declared.fault.FieldFault.{FieldFault}
use Rattle.fields.specs.declared.fault.ReadError.{ReadError}
use Rattle.fields.specs.declared.fault.ReadError.TheVariants.{Memory, Field}
use Rattle.fields.specs.Faults.{Checks, First}
use Rattle.fields.specs.Fields.{field, Begins, Cut, InField}

-- what a format says of its records
pub record Format (E : Type 0) : Type 1 where
  -- the tag and the body of a record's field
  pub tag : E → ℕ
  pub body : E → List ℕ
  -- the record's numbers fit the bytes that hold them
  pub Written : E → Type 0
  -- the format has a field of this tag
  pub known : ℕ → Bool
  -- a field of this tag may follow the records
  pub follows : List E → ℕ → Bool
  -- a field of this tag can have a body so long
  pub sized : ℕ → ℕ → Bool
  -- the record's numbers are in range and in order
  pub in_range : E → Bool
  -- what the record refers to stands among the records before it, and may be referred to
  pub refers : List E → E → Bool
  -- the record's terms rise, and no coefficient is nought
  pub in_order : E → Bool
  -- no record is missing
  pub complete : List E → Bool

module _ {E : Type 0} (f : Format E) where
  -- the bytes of a record, and of records
  abbrev pub encode : E → List ℕ
  encode e = field (f.tag e) (f.body e)

  abbrev pub encoding : List E → List ℕ
  encoding es = flat_map encode es

  -- a record that may follow others
  pub record Fits (before : List E) (e : E) : Type 0 where
    pub short : length (f.body e) < 65536
    pub known : f.known (f.tag e) ≡ true
    pub follows : f.follows before (f.tag e) ≡ true
    pub sized : f.sized (f.tag e) (length (f.body e)) ≡ true
    pub in_range : f.in_range e ≡ true
    pub refers : f.refers before e ≡ true
    pub in_order : f.in_order e ≡ true

  -- each record fits after those before it
  abbrev pub Fit : List E → List E → Type 0
  Fit before [] = Unit {0}
  Fit before (e ∷ es) = Fits before e × Fit (before ++ e ∷ []) es

  -- the bytes are those of the records, which are well formed
  pub record IsFile (bs : List ℕ) (es : List E) : Type 0 where
    pub bytes : bs ≡ encoding es
    pub each : Fit [] es
    pub complete : f.complete es ≡ true

  -- the bytes begin with the field of a record of which P holds
  pub record InRecord (bs : List ℕ) (P : E → Type 0) : Type 0 where
    pub entry : E
    pub rest : List ℕ
    pub begins : Begins bs (f.tag entry) (f.body entry) rest
    pub written : f.Written entry
    pub holds : P entry

  -- what is wrong with the field that bytes begin with, after records
  abbrev pub checks : List E → List ℕ → Checks
  checks before bs =
      record {
        past_end = Cut bs;
        unknown_tag = InField bs (λ tag body rest. f.known tag ≡ false);
        tag_order = InField bs (λ tag body rest. f.follows before tag ≡ false);
        bad_length = InField bs (λ tag body rest. f.sized tag (length body) ≡ false);
        out_of_range = InRecord bs (λ e. f.in_range e ≡ false);
        bad_reference = InRecord bs (λ e. f.refers before e ≡ false);
        term_order = InRecord bs (λ e. f.in_order e ≡ false);
      }

  -- what is wrong after records: with the next field, or that a record is missing at the end
  abbrev pub Wrong : List E → List ℕ → FaultKind → Type 0
  Wrong before rest k =
      ((0 < length rest) × First (checks before rest) k) ⊎ ((rest ≡ []) × (f.complete before ≡ false) × (k ≡ TagOrder))

  -- the first fault of a file: the records before it are well formed, and it stands behind their bytes
  pub record FirstFault (bs : List ℕ) (fault : FieldFault) : Type 0 where
    pub before : List E
    pub rest : List ℕ
    pub bytes : bs ≡ encoding before ++ rest
    pub each : Fit [] before
    pub place : fault.offset ≡ length (encoding before)
    pub wrong : Wrong before rest fault.kind

  -- a refusal tells the file's first fault, unless memory gave out
  abbrev pub Told : List ℕ → ReadError → Type 0
  Told bs Memory = Unit {0}
  Told bs (Field fault) = FirstFault bs fault
