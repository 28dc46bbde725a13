-- What the mode `health` prints of a health port, and the response that the port gives (RFC 9112,
-- 4 and 6; what the body tells is kube-proxy's, and its form this project's choice).
use Rattle.std.specs.Prelude.{ℕ, ◌==◌, List, [], ◌∷◌, ◌++◌, cond, codes, decimal, length}
use Rattle.std.specs.List.{flat_map}
use Rattle.kp_base.specs.declared.config.Config.{Config}
use Rattle.kp_base.specs.declared.key.ObjectKey.{ObjectKey}
use Rattle.kp_object_defs.specs.Objects.{Objects}
use Rattle.kp_text_defs.specs.Keys.{json_text, object_text}
use Rattle.kp_health_defs.specs.HealthPorts.{healths}
use Rattle.kp_health_defs.specs.declared.health.Health.{Health}

-- ---- Lines

-- the line of a health port
abbrev pub health_line : Health → List ℕ
health_line h =
    codes "health " ++ object_text h.service ++ codes " port " ++ decimal h.port ++ codes ": "
    ++ decimal h.status ++ codes " local " ++ decimal h.count ++ codes "\n"

-- the lines of all health ports of some objects, in order of the Services
abbrev pub health_lines : Config → Objects → List ℕ
health_lines config o = flat_map health_line (healths config o)

-- ---- The response

-- the end of a line of HTTP
abbrev pub line_end : List ℕ
line_end = 13 ∷ 10 ∷ []

-- a status, as the first line tells it
abbrev pub status_text : ℕ → List ℕ
status_text status = cond (status == 200) (codes "200 OK") (codes "503 Service Unavailable")

-- a Service, as the body tells it
abbrev pub service_text : ObjectKey → List ℕ
service_text key =
    codes "{\"namespace\":" ++ json_text key.namespace ++ codes ",\"name\":" ++ json_text key.name
    ++ codes "}"

-- the body
abbrev pub body_text : Health → List ℕ
body_text h =
    codes "{\"service\":" ++ service_text h.service ++ codes ",\"localEndpoints\":"
    ++ decimal h.count ++ codes "}"

-- the lines before a body of so many bytes
abbrev pub head_text : ℕ → ℕ → List ℕ
head_text status size =
    codes "HTTP/1.1 " ++ status_text status ++ line_end
    ++ codes "Content-Type: application/json" ++ line_end
    ++ codes "Content-Length: " ++ decimal size ++ line_end ++ line_end

-- the response of a health port
abbrev pub response_text_of : Health → List ℕ
response_text_of h = head_text h.status (length (body_text h)) ++ body_text h
