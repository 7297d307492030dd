-- The prefixes that a URI record abbreviates (NFC Forum, RTD URI 1.0, URI identifier codes).
use Rattle.std.specs.Prelude.{◌≡◌, ◌≢◌, ◌<◌, ◌≤◌, ℕ, List, [], ◌∷◌, ◌++◌, length, slice_index_or, codes}

-- RTD URI 1.0, URI identifier codes: the prefixes of the codes from 0x00 to 0x23
abbrev pub prefixes : List (List ℕ)
prefixes =
    [] ∷ codes "http://www." ∷ codes "https://www." ∷ codes "http://"
    ∷ codes "https://" ∷ codes "tel:" ∷ codes "mailto:" ∷ codes "ftp://anonymous:anonymous@"
    ∷ codes "ftp://ftp." ∷ codes "ftps://" ∷ codes "sftp://" ∷ codes "smb://"
    ∷ codes "nfs://" ∷ codes "ftp://" ∷ codes "dav://" ∷ codes "news:"
    ∷ codes "telnet://" ∷ codes "imap:" ∷ codes "rtsp://" ∷ codes "urn:"
    ∷ codes "pop:" ∷ codes "sip:" ∷ codes "sips:" ∷ codes "tftp:"
    ∷ codes "btspp://" ∷ codes "btl2cap://" ∷ codes "btgoep://" ∷ codes "tcpobex://"
    ∷ codes "irdaobex://" ∷ codes "file://" ∷ codes "urn:epc:id:" ∷ codes "urn:epc:tag:"
    ∷ codes "urn:epc:pat:" ∷ codes "urn:epc:raw:" ∷ codes "urn:epc:" ∷ codes "urn:nfc:" ∷ []

-- RTD URI 1.0, URI identifier codes: the prefix of a code; a reserved code is read as 0, which has
-- the empty one
unfoldable pub prefix_of : ℕ → List ℕ
prefix_of code = slice_index_or prefixes code []

-- the text begins with the prefix
abbrev pub Begins : List ℕ → List ℕ → Type 0
Begins text prefix = (rest : List ℕ) × (text ≡ prefix ++ rest)

-- the code whose prefix begins the text, and is longer than every other prefix that does
pub record IsLongest (text : List ℕ) (code : ℕ) : Type 0 where
  pub known : code ≤ 0x23
  pub begins : Begins text (prefix_of code)
  pub longest : (other : ℕ) → other ≤ 0x23 → Begins text (prefix_of other) → other ≢ code
      → length (prefix_of other) < length (prefix_of code)
