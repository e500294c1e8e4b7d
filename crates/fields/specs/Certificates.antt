-- The one field of a certificate: a label, then the numbers of a schedule or of a set of multipliers.
use Rattle.std.specs.Prelude.{◌≡◌, ℕ, ◌<◌, ◌⊎◌, List, [], ◌++◌, length, codes, Result, MatchResult, ◌≢◌}
use Rattle.fields.specs.Bytes.{four}
use Rattle.fields.specs.Faults.{Checks}
use Rattle.fields.specs.Fields.{Begins, Cut, InField}
use Rattle.fields.specs.declared.fault.FaultKind.{FaultKind}
use Rattle.fields.specs.declared.fault.FaultKind.TheVariants.{UnknownTag}
use Rattle.fields.specs.declared.certificate.CertificateKind.{CertificateKind}
use Rattle.fields.specs.declared.certificate.CertificateKind.TheVariants.{Schedule, Multipliers}

abbrev pub certificate_tag : CertificateKind → ℕ
certificate_tag Schedule = 20
certificate_tag Multipliers = 21

-- the kind that a tag names, or that none does
abbrev pub IsKind : ℕ → Result CertificateKind FaultKind → Type 0
IsKind t r = MatchResult r (λ k. t ≡ certificate_tag k) (λ e. (e ≡ UnknownTag) × ((k : CertificateKind) → t ≢ certificate_tag k))

-- the word for a kind
abbrev pub kind_text : CertificateKind → List ℕ
kind_text Schedule = codes "schedule"
kind_text Multipliers = codes "multipliers"

-- the bytes are one whole field of this kind, with this label and these value bytes, and nothing follows
pub record IsCertificate (k : CertificateKind) (bs : List ℕ) (label : ℕ) (values : List ℕ) : Type 0 where
  pub bytes : Begins bs (certificate_tag k) (four label ++ values) []
  pub four_bytes : label < 4294967296

-- what can be wrong with it
abbrev pub certificate_checks : CertificateKind → List ℕ → Checks
certificate_checks k bs =
    record {
      past_end = Cut bs;
      unknown_tag = InField bs (λ tag body rest. tag ≢ certificate_tag k);
      tag_order = ⊥;
      bad_length = InField bs (λ tag body rest. (length body < 4) ⊎ (0 < length rest));
      out_of_range = ⊥;
      bad_reference = ⊥;
      term_order = ⊥;
    }
