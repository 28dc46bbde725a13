-- Worked lines of refusals (this project's choice).
use Rattle.std.specs.Prelude.{◌≡◌, ℕ, List, [], ◌∷◌, ◌++◌, map, codes}
use Rattle.kp_json.specs.declared.fault.Why.{Why}
use Rattle.kp_json.specs.declared.fault.Why.TheVariants.{Missing, WrongType, OutOfRange, BadName, BadAddress, BadCidr, DuplicatePort, TooMany}
use Rattle.kp_text_defs.specs.declared.line_refusal.LineRefusal.TheVariants as refusal
use Rattle.kp_text_defs.specs.Refusals.{refusal_text}
use Rattle.kp_worked_texts.specs.Setting.{clash, port_clash}

-- refusals of whole lines
abbrev pub Lines : Type 0
Lines =
    map (refusal_text 4)
    (refusal.BadJson ∷ refusal.NotEvent ∷ refusal.ConfigLate ∷ refusal.TooLongLine ∷ refusal.JournalFull 2
    ∷ refusal.StreamsFull ∷ [])
    ≡ codes "line 4: refused: bad json\n" ∷ codes "line 4: refused: not an event\n"
    ∷ codes "line 4: refused: config is not the first line\n" ∷ codes "line 4: refused: longer than 16777216 bytes\n"
    ∷ codes "line 4: refused: journal full at 2\n" ∷ codes "line 4: refused: more than 64 streams\n" ∷ []

-- chains of one name
abbrev pub Clashes : Type 0
Clashes =
    map (refusal_text 4) (refusal.ChainClash clash ∷ refusal.ChainClash port_clash ∷ [])
    ≡ codes "line 4: refused: chain name KUBE-SEP- of default/web/TCP 10.244.1.2:8080 and of default/web/TCP 10.244.2.3:8080\n"
    ∷ codes "line 4: refused: chain name KUBE-SVC- of default/web/TCP and of default/web:https/TCP\n" ∷ []

-- texts in quotes, of which one has characters that are escaped
abbrev pub Quoted : Type 0
Quoted =
    map (refusal_text 4)
    (refusal.UnsupportedKind (codes "Deployment") ∷ refusal.UnknownOp (codes "a\"b\\c\n" ++ (1 ∷ []))
    ∷ refusal.NotLive (codes "show") ∷ [])
    ≡ codes "line 4: refused: kind \"Deployment\" is not supported\n"
    ∷ codes "line 4: refused: op \"a\\\"b\\\\c\\n\\u0001\" is not known\n"
    ∷ codes "line 4: refused: op \"show\" is not for live\n" ∷ []

-- the line of a member that is refused, with the count of its elements
abbrev pub member : Why → List ℕ
member why = refusal_text 4 (refusal.Bad (record { why = why; path = codes "spec.ports[0].port"; count = 1001 }))

-- each reason
abbrev pub Members : Type 0
Members =
    map member
    (Missing ∷ WrongType ∷ OutOfRange ∷ BadName ∷ BadAddress ∷ BadCidr ∷ DuplicatePort ∷ TooMany ∷ [])
    ≡ codes "line 4: refused: missing \"spec.ports[0].port\"\n"
    ∷ codes "line 4: refused: wrong type at \"spec.ports[0].port\"\n"
    ∷ codes "line 4: refused: out of range at \"spec.ports[0].port\"\n"
    ∷ codes "line 4: refused: bad name at \"spec.ports[0].port\"\n"
    ∷ codes "line 4: refused: bad address at \"spec.ports[0].port\"\n"
    ∷ codes "line 4: refused: bad range at \"spec.ports[0].port\"\n"
    ∷ codes "line 4: refused: duplicate port at \"spec.ports[0].port\"\n"
    ∷ codes "line 4: refused: too many at \"spec.ports[0].port\": 1001\n" ∷ []
